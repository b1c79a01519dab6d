pub mod Opening
pub mod Handing
pub mod FreeNumbers
