-- A scene, as code sees it, and what code can't change of it.
use Rattle.std.specs.Prelude.{ℕ, pos, List, length, map, replicate, Result}
use Rattle.pdl_shape.specs.Shape.{coordinates_of}
use Rattle.pdl_sig.specs.declared.Resolved.{Resolved}
use Rattle.pdl_sig.specs.Refusals.{dim_names_limit}
use Rattle.pdl_code.specs.Tree.{Code}
use Rattle.pdl_kernel.specs.declared.faults.Fault.{Fault}
use Rattle.pdl_kernel.specs.declared.scene.Scene.{Scene}
use Rattle.pdl_kernel.specs.Meaning.{Store, run}
use Rattle.pdl_kernel.specs.Places.{Kind, Rest, array_seen, begun_at, kind_of, rest_of}

abbrev pub store_of : Scene → Store
store_of s = record { arguments = map array_seen s.arguments.items; locals = s.locals.items }

abbrev pub rests_of : Scene → List Rest
rests_of s = map rest_of s.arguments.items

abbrev pub kinds_of : Scene → List Kind
kinds_of s = map kind_of (rests_of s)

-- what code finds at broadcast coordinates, and what it can't change there
abbrev pub starting : (coordinates : List ℕ) → Scene → Store
starting bs s = record {
  arguments = map (λ w. array_seen (begun_at bs w)) s.arguments.items;
  locals = replicate (length s.locals.items) (pos 0);
}

abbrev pub rests_at : (coordinates : List ℕ) → Scene → List Rest
rests_at bs s = map (λ w. rest_of (begun_at bs w)) s.arguments.items

-- what code leaves at a broadcast place
abbrev pub left_in_order : Resolved → Code → Scene → (place : ℕ) → Result Store Fault
left_in_order r code s p =
    run r (replicate dim_names_limit 0) code (starting (coordinates_of r.broadcast p) s)
