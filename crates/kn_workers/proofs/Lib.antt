pub mod ConnectionLaws
pub mod WorkLaws
pub mod HiringLaws
pub mod ServingAll
pub mod RoomLaws
pub mod ShareLaws
pub mod AddressLaws
pub mod Crossing
