pub mod PlainCommand
