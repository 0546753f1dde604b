pub mod Canvases
pub mod Reports
pub mod ExampleScenes
pub mod ExampleRuns
pub mod ExampleMoves
pub mod Scripts
