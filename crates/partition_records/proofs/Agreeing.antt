-- What the column form says of the first records of a list, those that a table has room for, is what `swap_records` says of the list.
use Prim.Native.Nat.{ℕ, zero, suc, ◌≤◌, ◌<◌}
use native.Mathlib.Omega.{arith}
use borrow.Author.Tests.{eqb-true}
use mathlib.Core.Bool.{Bool, true, false, cond, ◌&&◌}
use mathlib.Core.Logic.{◌⊎◌, ⊎_elim}
use mathlib.Core.Path.{◌≡◌, refl, ap, sym, ◌∙◌}
use mathlib.Core.List.{List, [], ◌∷◌, ◌++◌, map}
use lib.Dec.{eqb}
use lib.ListN.{length, get_or, take, drop, length-map}
use lib.Seq.{get_or-take, length-take-le, take_all, take_at}
use Rattle.std.specs.Prelude.{Result, Ok, Err}
use Rattle.std.specs.List as list
use Rattle.std.specs.Result.{is_ok}
use Rattle.std.proofs.lemmas.List.Edits.{swap_is}
use Rattle.columns.specs.Columns.{exchanged}
use Rattle.columns.specs.Limits.{inconsistent, max_states, too_short, wrong_states}
use Rattle.columns.specs.Answers.{Answer, Refusal, Said, done, refused, refusal, said, said_outcome, leaving}
use Rattle.columns.specs.declared.answers.Refusal as code
use Rattle.columns.specs.Due.{test, due, in_range, index_test}
use Rattle.columns.proofs.All.{lt-or-le}
use Rattle.columns.proofs.Bools.{bool_ext}
use Rattle.columns.proofs.Rooms.{range_high}
use Rattle.columns.proofs.Saying.{apart}
use Rattle.partition.specs.declared.block.Block.{Block}
use Rattle.partition.specs.Checks.{blocks_refusal}
use Rattle.partition.specs.Partition.{Partition, parts, Long, Consistent, Within, Lies, lengths, consistentb, longb}
use Rattle.partition.specs.SwapBlocks.{swap, swap_blocks}
use Rattle.partition.proofs.Holds.{long_of, of_long, consistent_of, of_consistent}
use Rattle.partition.proofs.Refusals.{blocks_ready}
use Rattle.partition_records.specs.Records.{begins, splits, ends, lent, no_block, swap_records}
use Rattle.partition_records.specs.Tables.{swap_numbers}
use Rattle.partition_records.proofs.Fields.{field_at}
use Rattle.columns.proofs.Maps.{take-map}

-- ---- two lists with the same first n records
module _ (e o b : List ℕ) (n count : ℕ) where
  module _ (bs cs : List Block) (same : (k : ℕ) → k < n → get_or bs k no_block ≡ get_or cs k no_block) where
    cell : (f : Block → ℕ) → f no_block ≡ 0 → (k : ℕ) → k < n → get_or (map f bs) k 0 ≡ get_or (map f cs) k 0
    cell f z k w = field_at f z bs k ∙ ap f (same k w) ∙ sym (field_at f z cs k)

    begin_at : (k : ℕ) → k < n → get_or (begins bs) k 0 ≡ get_or (begins cs) k 0
    begin_at = cell (λ (b : Block). b.begin) refl

    end_at_lem : (k : ℕ) → k < n → get_or (ends bs) k 0 ≡ get_or (ends cs) k 0
    end_at_lem = cell (λ (b : Block). b.end) refl

    lengths_alike : (c : ℕ) → c ≤ n → lengths (begins bs) (ends bs) c ≡ lengths (begins cs) (ends cs) c
    unfolding lengths
    lengths_alike zero h = refl
    lengths_alike (suc c) h = rw (lengths_alike c (omega arith), begin_at c (omega arith), end_at_lem c (omega arith))

    consistent_alike : Consistent (lent e o b bs n count) → Consistent (lent e o b cs n count)
    consistent_alike h =
        record {
          some = h.some;
          most = h.most;
          order = h.order;
          places = h.places;
          bounds = bounds;
          lies = lies;
          whole = sym (lengths_alike count h.most) ∙ h.whole;
        }
      where
        bounds : (k : ℕ) → k < count → Within (get_or (begins cs) k 0) (get_or (splits cs) k 0) (get_or (ends cs) k 0) n
        bounds k w =
            let v = h.bounds k w in
            let l : k < n = omega (arith, h.most) in
            let m = cell (λ (b : Block). b.marked_split) refl k l in
            record {
              some = omega (arith, v.some, begin_at k l, end_at_lem k l);
              from = omega (arith, v.from, begin_at k l, m);
              to = omega (arith, v.to, m, end_at_lem k l);
              most = omega (arith, v.most, end_at_lem k l);
            }

        lies : (s : ℕ) → s < n → Lies (lent e o b cs n count) s
        lies s w =
            let v = h.lies s w in
            let l : get_or b s 0 < n = omega (arith, v.known, h.most) in
            record {
              known = v.known;
              from = omega (arith, v.from, begin_at (get_or b s 0) l);
              to = omega (arith, v.to, end_at_lem (get_or b s 0) l);
            }

    long_alike : n ≤ length cs → Long (lent e o b bs n count) → Long (lent e o b cs n count)
    long_alike h g =
        record {
          elements = g.elements;
          element_offset = g.element_offset;
          element_to_block = g.element_to_block;
          begin = omega (arith, h, length-map cs (λ (b : Block). b.begin));
          marked_split = omega (arith, h, length-map cs (λ (b : Block). b.marked_split));
          end = omega (arith, h, length-map cs (λ (b : Block). b.end));
        }

  module _ (l r : ℕ) where
    abbrev chain : Bool → Bool → Bool → Refusal
    chain size long consistent =
        due
        (test size wrong_states 0 ∷ test (long && true) too_short 0 ∷ test consistent inconsistent 0 ∷ index_test l count ∷ index_test r
        count ∷ [])

    abbrev P : List Block → Partition
    P bs = lent e o b bs n count

    chain_of : (bs : List Block) → blocks_refusal (P bs) l r ≡ chain (in_range 1 n max_states) (longb (P bs)) (consistentb (P bs))
    unfolding blocks_refusal
    chain_of bs = refl

    -- n is out of its range
    chain_high : max_states < n → (bs : List Block) → blocks_refusal (P bs) l r ≡ refusal wrong_states 0
    unfolding due
    chain_high h bs = chain_of bs ∙ ap (λ (s : Bool). chain s (longb (P bs)) (consistentb (P bs))) (range_high 1 n max_states h)

    chain_alike : (bs cs : List Block) → ((k : ℕ) → k < n → get_or bs k no_block ≡ get_or cs k no_block) → n ≤ length bs → n ≤ length cs
        → blocks_refusal (P bs) l r ≡ blocks_refusal (P cs) l r
    chain_alike bs cs f hb hc =
        let g : (k : ℕ) → k < n → get_or cs k no_block ≡ get_or bs k no_block = λ k w. sym (f k w) in
        let long : longb (P bs) ≡ longb (P cs) = bool_ext (longb (P bs)) (longb (P cs))
        (λ t. of_long (P cs) (long_alike bs cs f hc (long_of (P bs) t))) (λ t. of_long (P bs) (long_alike cs bs g hb (long_of (P cs) t))) in
        let sound : consistentb (P bs) ≡ consistentb (P cs) = bool_ext (consistentb (P bs)) (consistentb (P cs))
        (λ t. of_consistent (P cs) (consistent_alike bs cs f (consistent_of (P bs) t)))
        (λ t. of_consistent (P bs) (consistent_alike cs bs g (consistent_of (P cs) t))) in
        chain_of bs ∙ (λ i. chain (in_range 1 n max_states) (long i) (sound i)) ∙ sym (chain_of cs)

    -- the list's first m records, all of them or as many as there may be blocks, are refused as it is
    refused_alike : (bs : List Block) (m : ℕ) → m ≤ length bs → (m ≡ length bs) ⊎ (m ≡ max_states)
        → blocks_refusal (P (take m bs)) l r ≡ blocks_refusal (P bs) l r
    refused_alike bs m h =
        ⊎_elim (λ (e : m ≡ length bs). ap (λ (xs : List Block). blocks_refusal (P xs) l r) (take_all m bs (omega arith)))
        (λ (e : m ≡ max_states).
        ⊎_elim (λ (w : max_states < n). chain_high w (take m bs) ∙ sym (chain_high w bs))
        (λ (w : n ≤ max_states).
        chain_alike (take m bs) bs (λ k v. get_or-take m bs k no_block (omega arith)) (omega (arith, length-take-le m bs h)) (omega arith))
        (lt-or-le max_states n))

-- ---- what the column form says and leaves of records' fields
abbrev column : Said × Partition → Said × List ℕ
column s = (s.0, s.1.element_to_block)

column-left : (q : Refusal) (x y : Partition) → column (leaving q x [] y) ≡ leaving q x.element_to_block [] y.element_to_block
unfolding leaving
column-left q x y = by (eqb q.number 0)
  where
    by : (t : Bool)
        → column (cond t (done [], y) (refused q.number q.place, x))
        ≡ cond t (done [], y.element_to_block) (refused q.number q.place, x.element_to_block)
    by true = refl
    by false = refl

pub numbers_left :
    (e o b : List ℕ) (t : List Block) (k n count l r : ℕ) (bg sp en b' bg' sp' en' : List ℕ) (s : Said)
    → bg ≡ begins t → sp ≡ splits t → en ≡ ends t
    → (s, parts e o b' bg' sp' en' n count) ≡ swap_blocks (parts e o b (take k bg) (take k sp) (take k en) n count) l r
    → (s, b') ≡ swap_numbers e o b (take k t) n count l r
unfolding swap_numbers swap_blocks
numbers_left e o b t k n count l r bg sp en b' bg' sp' en' s x m z d =
    let p = lent e o b (take k t) n count in
    let x' : take k bg ≡ begins (take k t) = ap (take k) x ∙ take-map (λ (b : Block). b.begin) k t in
    let m' : take k sp ≡ splits (take k t) = ap (take k) m ∙ take-map (λ (b : Block). b.marked_split) k t in
    let z' : take k en ≡ ends (take k t) = ap (take k) z ∙ take-map (λ (b : Block). b.end) k t in
    let q : parts e o b (take k bg) (take k sp) (take k en) n count ≡ p = λ i. parts e o b (x' i) (m' i) (z' i) n count in
    ap column d ∙ ap (λ (y : Partition). column (swap_blocks y l r)) q ∙ column-left (blocks_refusal p l r) p (swap p l r)

-- ---- and the records
-- whether an outcome is that the call was done
done_ok : (o : Result (Unit {0}) code.Refusal) (values : List ℕ) → said_outcome (λ _. []) o ≡ done values → is_ok o ≡ true
done_ok (Ok u) values e = refl
done_ok (Err x) values e = absurd (apart _ _ _ (sym e))

refused_ok : (o : Result (Unit {0}) code.Refusal) (n p : ℕ) → said_outcome (λ _. []) o ≡ refused n p → is_ok o ≡ false
refused_ok (Ok u) n p e = absurd (apart _ _ _ e)
refused_ok (Err x) n p e = refl

module _ (q : Refusal) (b c z : List ℕ) (a : Answer (Unit {0})) (d : (said a, z) ≡ leaving q b [] c) where
  abbrev Left : Bool → Type 0
  Left y = ◌≡◌ {A = Said × List ℕ} (said a, z) (cond y (done [], c) (refused q.number q.place, b))

  goes : (y : Bool) → Left y → is_ok a.outcome ≡ y
  goes true e = done_ok a.outcome [] (ap (λ (s : Said × List ℕ). s.0) e)
  goes false e = refused_ok a.outcome q.number q.place (ap (λ (s : Said × List ℕ). s.0) e)

  -- where the call was done there was no refusal
  none_left : is_ok a.outcome ≡ true → q.number ≡ 0
  unfolding leaving
  none_left y = eqb-true q.number 0 (sym (goes (eqb q.number 0) d) ∙ y)

  -- a list that changes only where the call was done
  both_left : (bs ex : List Block) →
      ◌≡◌ {A = Said × (List ℕ × List Block)} (said a, (z, cond (is_ok a.outcome) ex bs))
      (leaving {A = List ℕ × List Block} q (b, bs) [] (c, ex))
  unfolding leaving
  both_left bs ex = by (eqb q.number 0) d
    where
      by : (y : Bool) → Left y → ◌≡◌ {A = Said × (List ℕ × List Block)} (said a, (z, cond (is_ok a.outcome) ex bs))
          (cond y (done [], (c, ex)) (refused q.number q.place, (b, bs)))
      by true e = λ i. ((e i).0, ((e i).1, cond (goes true e i) ex bs))
      by false e = λ i. ((e i).0, ((e i).1, cond (goes false e i) ex bs))

-- a list's first m records, all of them or as many as there may be blocks, lie over the front of a table t, and the column form has
-- answered on them
module _ (e o b : List ℕ) (bs : List Block) (n count l r : ℕ) {m : ℕ} (h : m ≤ length bs) (c : (m ≡ length bs) ⊎ (m ≡ max_states))
    {xs : List Block} (f : xs ≡ take m bs) (t : List Block) (a : Answer (Unit {0})) {z : List ℕ}
    (d : (said a, z) ≡ swap_numbers e o b (take m (xs ++ drop m t)) n count l r) where
  abbrev p : Partition
  p = lent e o b bs n count

  list_left : (said a, z) ≡ leaving (blocks_refusal p l r) b [] (swap p l r).element_to_block
  unfolding swap_numbers
  list_left =
      d
      ∙ ap (λ (u : List Block). swap_numbers e o b u n count l r) (take_at xs (drop m t) m (ap length f ∙ length-take-le m bs h) ∙ f)
      ∙ ap (λ (q : Refusal). leaving q b [] (swap p l r).element_to_block) (refused_alike e o b n count l r bs m h c)

  records_left : (y : Bool) → is_ok a.outcome ≡ y → (said a, (z, cond y (exchanged no_block l r bs) bs)) ≡ swap_records e o b bs n count l r
  unfolding swap_records
  records_left y g =
      ap (λ (y : Bool). (said a, (z, cond y (exchanged no_block l r bs) bs))) (sym g)
      ∙ both_left (blocks_refusal p l r) b (swap p l r).element_to_block z a list_left bs (exchanged no_block l r bs)

  -- where it is done, the two blocks are among the records, which are exchanged; else the records stay
  module _ (g : is_ok a.outcome ≡ true) where
    pub both_within : (l < length bs) × (r < length bs)
    both_within =
        let q = blocks_ready p l r (blocks_refusal p l r) refl
        (none_left (blocks_refusal p l r) b (swap p l r).element_to_block z a list_left g) in
        let f : n ≤ length bs = omega (arith, q.sound.long.begin, length-map bs (λ (b : Block). b.begin)) in
        (omega (arith, q.left, q.sound.consistent.most), omega (arith, q.right, q.sound.consistent.most))

    pub records_swapped : (ws : List Block) → ws ≡ list.swap bs l r → (said a, (z, ws)) ≡ swap_records e o b bs n count l r
    unfolding exchanged
    records_swapped ws w =
        ap (λ (x : List Block). (said a, (z, x))) (w ∙ sym (swap_is bs l r no_block both_within.0 both_within.1)) ∙ records_left true g

  pub records_stay : is_ok a.outcome ≡ false → (said a, (z, bs)) ≡ swap_records e o b bs n count l r
  records_stay g = records_left false g
