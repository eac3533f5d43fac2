mod FlagLemmas
mod PlacedGathered
mod GatheredPlaces
mod FilledPaths
mod FilledElsewhere
mod FilledViews
