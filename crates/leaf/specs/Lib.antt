-- The definitions of the leaves: numbers in bytes, generations, dates, CRC-32. The signs are explained in docs/READING.md.
pub mod Bytes
pub mod Generation
pub mod Date
pub mod Polynomial
pub mod Crc
pub mod Claims
pub mod CrcParts
