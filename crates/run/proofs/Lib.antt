pub mod Laws
pub mod Chunk
