pub mod NoSheet
