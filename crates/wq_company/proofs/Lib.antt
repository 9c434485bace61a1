pub mod Showing
pub mod Serving
pub mod Reading
pub mod Parting
pub mod Knowing
pub mod Placing
pub mod Beginning
