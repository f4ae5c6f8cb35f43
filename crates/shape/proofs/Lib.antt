pub mod ShapeTests
