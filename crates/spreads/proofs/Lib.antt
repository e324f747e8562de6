pub mod RangeClosure
