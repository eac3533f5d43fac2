use Rattle.pdl_nodes.proofs.layouts.layout.Goals as goal

pub returns-in_ok-index-in-Index-clause-layout : goal.returns-in_ok-index-in-Index-clause-layout
returns-in_ok-index-in-Index-clause-layout c = rw (c.in-Index.is, ← c.as_slice.ensures) (c.in_ok-index-in-Index.ensures.dims, c.in_ok-index-in-Index.ensures.places, c.in_ok-index-in-Index.ensures.inside)

pub returns-in_ok-listed_places-in-Where-clause-layout : goal.returns-in_ok-listed_places-in-Where-clause-layout
returns-in_ok-listed_places-in-Where-clause-layout c = rw (c.in-Where.is, ← c.as_slice-in-Where.ensures) (c.in_ok-listed_places-in-Where.ensures.dims, c.in_ok-listed_places-in-Where.ensures.places, c.in_ok-listed_places-in-Where.ensures.inside)

pub returns-in_ok-windows-in-Range-clause-layout : goal.returns-in_ok-windows-in-Range-clause-layout
returns-in_ok-windows-in-Range-clause-layout c = rw (c.in-Range.is, ← c.as_slice-in-Range.ensures, ← c.as_slice-in-Range-2.ensures) (c.in_ok-windows-in-Range.ensures.dims, c.in_ok-windows-in-Range.ensures.places, c.in_ok-windows-in-Range.ensures.inside)
