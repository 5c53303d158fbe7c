pub mod LinePieces
pub mod Listings
