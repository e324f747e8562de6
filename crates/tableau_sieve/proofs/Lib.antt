pub mod SiftedGoals
