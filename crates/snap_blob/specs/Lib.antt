pub mod Ordered
pub mod RoStrings
pub mod Sections
pub mod Steps
pub mod OpenShapes
pub mod Visits
