pub mod Buffer
pub mod PlanText
pub mod RefusalLine
