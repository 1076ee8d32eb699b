pub mod LastQueries
pub mod Playing
