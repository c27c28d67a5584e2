pub mod Barred
pub mod Required
pub mod Layers
pub mod Theorems
pub mod BarredLaws
pub mod RequiredLaws
