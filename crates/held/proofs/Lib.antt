-- What the three calls answer, way by way, and document 02's facts about them.
pub mod Laws
pub mod Facts
