pub mod Printed
pub mod LineParts
pub mod Lines
pub mod GenLines
