pub mod Batches
pub mod Texts
pub mod Tops
pub mod Manned
