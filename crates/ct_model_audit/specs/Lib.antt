pub mod ModelAudit
