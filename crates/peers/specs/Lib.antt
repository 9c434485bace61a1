pub mod States
pub mod Serves
pub mod Sends
pub mod Hears
pub mod Provides
pub mod Strangers
