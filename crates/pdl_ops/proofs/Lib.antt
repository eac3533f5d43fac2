pub mod BlockLists
pub mod BlockZeros
pub mod ElementwiseParts
pub mod ElementwiseResults
pub mod ValueFitting
pub mod FillCoordinates
pub mod ValueCuts
pub mod ElementwiseForms
