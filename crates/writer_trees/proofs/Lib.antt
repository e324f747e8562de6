pub mod Growths
pub mod NodeHalves
pub mod RootTrees
