pub mod GoalFacts
