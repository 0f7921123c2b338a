pub mod SoughtPlans
pub mod TrueAnswers
pub mod RootLines
pub mod Promises
pub mod OwnQuestion
pub mod ModelLimits
