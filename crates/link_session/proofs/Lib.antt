mod Contents
mod Attempts
mod Closing
mod Hearing
