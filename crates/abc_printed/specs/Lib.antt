pub mod Parts
pub mod Forms
pub mod Printed
pub mod Printable
pub mod Examples
