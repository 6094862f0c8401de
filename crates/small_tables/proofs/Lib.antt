mod SmallFields
mod SmallOpenings
mod SmallParts
