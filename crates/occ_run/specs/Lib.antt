pub mod Clients
pub mod Plans
pub mod Reports
pub mod Runs
pub mod TransactionLines
pub mod Workloads
