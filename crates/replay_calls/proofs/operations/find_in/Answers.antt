-- `find_in` meets its contract.
use Rattle.std.proofs.Common.{rules, ◌≡◌, ◌∙◌, ap, refl, Bool, true, false, cond, List, [], ◌∷◌, ℕ, Option, Some, map}
use Rattle.std.specs.Prelude.{find}
use Rattle.std.specs.Option.{option_map}
use Rattle.std.proofs.lemmas.Iterator.{YieldsList-from_slice}
use Rattle.std.proofs.lemmas.Iterator.Search.{find_from_yields_List}
use Rattle.replay_calls.specs.Operations.{Entry, Listed, found, has_name, said_by, held, find_in, find_listed}
use Rattle.replay_calls.proofs.operations.find_in.Goals as goal
use Rattle.replay_calls.proofs.operations.find_in.Goals.{After-map}

-- the entry that stands first, if it has the name, or what the others have
first_or :
    (has : Bool) (e : Entry) (one : Option Entry) (other : Option Listed)
    → option_map said_by one ≡ option_map (λ (listed, kinds, operation). (operation, kinds.now)) other
    → option_map said_by (cond has (Some e) one) ≡ option_map (λ (listed, kinds, operation). (operation, kinds.now)) (cond has (Some (held e)) other)
first_or true e one other q = refl
first_or false e one other q = q

-- a list that is lent is searched as the constant that it may lie in
as_listed : (entries : List Entry) (name : List ℕ) → find_in entries name ≡ find_listed (map held entries) name
as_listed [] name = refl
as_listed (e ∷ entries) name = first_or (has_name name e) e (find (has_name name) entries) _ (as_listed entries name)

by_value : (c : After-map) → option_map found c.map.result ≡ find_in c.args.entries.now c.args.name.now
by_value c =
    let first = find_from_yields_List (has_name c.args.name.now) _ _ c.find.result c.find.ensures.ran (YieldsList-from_slice c.args.entries.now cc) (λ x b q k. search rules) in
    let said : option_map found c.map.result ≡ option_map said_by (option_map (λ entry. entry.now) c.find.result) = search rules in
    said ∙ ap (option_map said_by) first

pub returns-clause-value : goal.returns-clause-value
returns-clause-value c = by_value (goal.at.returns-clause-value c).After-map

pub returns-clause-listed : goal.returns-clause-listed
returns-clause-listed c = by_value (goal.at.returns-clause-listed c).After-map ∙ as_listed c.args.entries.now c.args.name.now
