pub mod Answers
pub mod Disk
pub mod Images
pub mod Laws
pub mod MemDisk
pub mod MemDiskInside
