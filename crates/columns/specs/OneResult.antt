-- What document 01 asks of a contract: any two results that it allows are equal. T is what a function takes and answers, and C what a
-- caller learns from its `ensures` as they stand in src/. Two calls with the same arguments a answer r and q, and x and y are what each
-- `&mut` parameter holds when they return. T alone says which those are: a slice that is lent for writing, and that no `ensures` speaks
-- of, leaves `OneResult` without a proof.
use Rattle.std.specs.Prelude.{◌≡◌}
use contract.Lifetimes.{Lfts}
use denote.Triple.Clauses.{Ended, Lasts, AtExit, at_exit}
use denote.Triple.Entry.{Args, Res}

abbrev pub Contract : Ended → Type 1
Contract T = (κs : Lfts T.signature.lifetimes) → Args T.signature κs → Res T.signature κs → AtExit T κs → Type 0

abbrev pub OneResult : (T : Ended) → Contract T → Type 0
OneResult T C =
    (κs : Lfts T.signature.lifetimes) (a : Args T.signature κs) (r q : Res T.signature κs) (x y : Lasts T κs a)
    → C κs a r (at_exit T κs a x) → C κs a q (at_exit T κs a y) → (r ≡ q) × (x ≡ y)
