pub mod SameApps
