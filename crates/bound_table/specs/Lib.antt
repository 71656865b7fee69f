pub mod Firm
pub mod Kept
pub mod Lending
pub mod Views
pub mod inside
