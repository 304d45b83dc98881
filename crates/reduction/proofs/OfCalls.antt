-- What a call of `strong_reduction` answers and leaves, sentence by sentence, and of its contract alone: `Post` is the `ensures` of
-- src/lib.rt, over the parameters on entry, the answer and the parameters at return. For a right table and the room the call is done, and
-- the rest holds of a call that is done. A step is a row (specs/Lts of `table`), a bisimulation is Park's and Milner's
-- (specs/Bisimulation of `bisimulation`, a short file), and the room is `Ready` of specs/Reducing. Every label is an ordinary one, the
-- hidden one too, and states that are not reachable stay.
use Rattle.std.specs.Prelude.{◌≡◌, ℕ, ◌-◌, ◌<◌, ◌≤◌, ◌↔◌, List, length, get_or}
use mathlib.Core.Path.{refl, sym, ap, subst, ◌∙◌}
use native.Mathlib.Omega.{arith}
use contract.Lifetimes.{Lfts}
use denote.Triple.Clauses.{AtExit}
use denote.Triple.Entry.{Args}
use Rattle.bisimulation.specs.Bisimulation.{Match, Bisimulation, Bisimilar}
use Rattle.bisimulation.specs.Quotient.{Belongs}
use Rattle.columns.specs.Blocks.{block_of}
use Rattle.bisimulation.proofs.Quotients.{quotient_in, quotient_ascending}
use Rattle.columns.specs.Answers.{Answer, Said, done}
use Rattle.columns.specs.Columns.{listed}
use Rattle.columns.specs.Sets.{Row, StepIn}
use Rattle.columns.proofs.Lists.{over_front}
use Rattle.reduction.specs.Answers.{said_reduction}
use Rattle.reduction.specs.Reducing.{Slices, result_lengths, work_lengths, reduction_refusal, reduction_numbers, reduction_left}
use Rattle.reduction.specs.Reducing.{strong_reduction, answered_table, ReadyFor}
use Rattle.reduction.specs.declared.answers.Reduced.{Reduced}
use Rattle.reduction.proofs.Calls as call
use Rattle.reduction.proofs.Entries.{ready_of, never_refused, length-blocks}
use Rattle.reduction.specs.contracts.strong_reduction.{signature, ended}
use Rattle.reduction.proofs.strong_reduction.Reads.{Post}
use Rattle.refinement_strong.specs.Reduction.{strong_blocks, strong_block, strong_rounds, strong_count, strong_rows, quotient_of, strong_reduced}
use Rattle.refinement_strong.proofs.Again.{AllApart, own_blocks, own_rows_lem}
use Rattle.refinement_strong.proofs.Bisimulations.{valid_range}
use Rattle.refinement_strong.proofs.Quotients.{quotient_of-rows}
use Rattle.refinement_strong.proofs.Reductions as R
use Rattle.refinement_strong.proofs.Reductions.{reduced_valid}
use Rattle.refinement_strong.proofs.Theorems as D
use Rattle.table.specs.Lts.{Lts, rows, Step, Valid}
use Rattle.table.specs.Tables.{table_of, rows_over}
use Rattle.table.proofs.Rows.{step_fields}
use Rattle.table.proofs.Sayings.{left-said}
use Rattle.table.proofs.Tables.{laid-rows, laid_valid}

-- a call on entry, its answer, and the call at return: any that the contract allows
module _ (κs : Lfts 16) (entry : Args signature κs) (answer : Answer Reduced) (exit : AtExit ended κs)
    (met : Post κs entry answer exit) where
  -- the table that is lent, the slices that are lent for writing, and these at return
  abbrev pub t : Lts
  t = call.system κs entry

  abbrev pub given : Slices
  given = call.given κs entry

  abbrev pub left : Slices
  left = call.left κs exit

  -- For every table that passes the checks, lent the room that document 01 names, the call is done: it is never refused.
  pub call_done : ReadyFor t given → said_reduction answer ≡ done (reduction_numbers t)
  call_done ready = ap (λ (p : Said × Slices). p.0) (met ∙ never_refused t given ready)

  -- ---- the call is done, with these numbers
  module _ (values : List ℕ) (said : said_reduction answer ≡ done values) where
    -- the table that is answered, and the block that each state has in the block column
    abbrev pub result : Lts
    result = answered_table values left

    abbrev pub block : ℕ → ℕ
    block = block_of left.1.0

    abbrev pub In : ℕ → ℕ → Type 0
    In = Belongs t.n block

    -- the checks were passed, and the numbers and slices are those that are defined
    as_defined :
        ((reduction_refusal t (result_lengths given) (length given.1.0) (work_lengths given)).number ≡ 0)
        × ((reduction_numbers t ≡ values) × (reduction_left t given ≡ left))
    unfolding strong_reduction
    as_defined = left-said _ given (reduction_left t given) left (reduction_numbers t) values (sym met ∙ λ i. (said i, left))

    -- The table passed the checks, and there was room.
    pub was_ready : ReadyFor t given
    was_ready = ready_of t (result_lengths given) (length given.1.0) (work_lengths given) _ refl as_defined.0

    valid : Valid t
    valid = was_ready.valid

    -- ---- what is answered is what is defined
    number : (k : ℕ) → get_or (reduction_numbers t) k 0 ≡ get_or values k 0
    number k = ap (λ (l : List ℕ). get_or l k 0) as_defined.1.0

    laid : answered_table (reduction_numbers t) (reduction_left t given) ≡ result
    laid = λ i. answered_table (as_defined.1.0 i) (as_defined.1.1 i)

    rows_defined : rows result ≡ strong_rows t
    unfolding reduction_left rows_over
    rows_defined =
        sym (ap (λ (u : Lts). rows u) laid)
        ∙ laid-rows (strong_count t) t.labels (strong_block t t.initial) (strong_rows t) given.0.0 given.0.1.0
        given.0.1.1

    block_defined : (s : ℕ) → s < t.n → block s ≡ strong_block t s
    unfolding reduction_left
    block_defined s h =
        sym (ap (λ (l : Slices). block_of l.1.0 s) as_defined.1.1)
        ∙ over_front (strong_blocks t) given.1.0 s (omega (arith, length-blocks t, h))

    reduced_rows : rows (strong_reduced t) ≡ rows result
    unfolding strong_reduced
    reduced_rows = quotient_of-rows t (strong_count t) (strong_blocks t) ∙ sym rows_defined

    to_defined : (s b : ℕ) → In s b → Belongs t.n (strong_block t) s b
    to_defined s b h = record { state = h.state; home = sym (block_defined s h.state) ∙ h.home }

    from_defined : (s b : ℕ) → Belongs t.n (strong_block t) s b → In s b
    from_defined s b h = record { state = h.state; home = block_defined s h.state ∙ h.home }

    -- ---- demand 3
    -- Each step of a state is a step of its block.
    pub step_of_block : (s a u : ℕ) → Step t s a u → Step result (block s) a (block u)
    step_of_block s a u k =
        let w = valid_range t valid in
        subst (λ (l : List Row). StepIn l (block s) a (block u)) (sym rows_defined)
        (subst (λ (b : ℕ). StepIn (strong_rows t) b a (block u)) (sym (block_defined s (w.source s a u k)))
        (subst (λ (c : ℕ). StepIn (strong_rows t) (strong_block t s) a c) (sym (block_defined u (w.target s a u k)))
        (quotient_in (strong_block t) (rows t) s a u k)))

    -- Each step of a block is answered by every state in it, with a target in the right block.
    pub block_answered : (b a c : ℕ) → Step result b a c → (s : ℕ) → In s b → Match (rows t) s a (λ u. In u c)
    block_answered b a c k s h =
        let g =
        D.block_answered t valid b a c (subst (λ (l : List Row). StepIn l b a c) (sym reduced_rows) k) s (to_defined s b h) in
        record { target = g.target; step = g.step; related = from_defined g.target c g.related }

    -- The start maps to the start.
    pub start_to_start : result.initial ≡ block t.initial
    start_to_start = sym (number 3) ∙ sym (block_defined t.initial valid.initial)

    -- Two states share a block exactly if some bisimulation relates them.
    pub share_exactly : (s u : ℕ) → s < t.n → u < t.n → (block s ≡ block u) ↔ Bisimilar (rows t) (rows t) s u
    share_exactly s u hs hu = (
      λ q. (D.share_exactly t valid s u hs hu).0 (sym (block_defined s hs) ∙ q ∙ block_defined u hu),
      λ b. block_defined s hs ∙ (D.share_exactly t valid s u hs hu).1 b ∙ sym (block_defined u hu),
    )

    -- So a bisimulation between the source and what is answered relates each state to its block.
    pub states_and_blocks : Bisimulation (rows t) (rows result) In
    states_and_blocks = record {
      forth = λ s b a u h k.
          record {
            target = block u;
            step = subst (λ (x : ℕ). Step result x a (block u)) h.home (step_of_block s a u k);
            related = record { state = (valid_range t valid).target s a u k; home = refl };
          };
      back = λ b s a c h k. block_answered b a c k s h;
    }

    pub state_and_block : (s : ℕ) → s < t.n → Bisimilar (rows t) (rows result) s (block s)
    state_and_block s h =
        record { relation = In; bisimulation = states_and_blocks; related = record { state = h; home = refl } }

    -- The two starts are bisimilar.
    pub starts_bisimilar : Bisimilar (rows t) (rows result) t.initial result.initial
    starts_bisimilar =
        subst (λ (b : ℕ). Bisimilar (rows t) (rows result) t.initial b) (sym start_to_start)
        (state_and_block t.initial valid.initial)

    -- The blocks are the states of what is answered: each state has one of them, and each of them a state. The labels are as they were.
    pub block_below : (s : ℕ) → s < t.n → block s < result.n
    unfolding strong_reduced quotient_of table_of
    block_below s h = omega (arith, block_defined s h, R.block_below t valid s h, number 0)

    pub block_member : (b : ℕ) → b < result.n → (s : ℕ) × In s b
    unfolding strong_reduced quotient_of table_of
    block_member b h =
        let f = R.block_member t valid b (omega (arith, h, number 0)) in
        (f.state, from_defined f.state b record { state = f.below; home = f.home })

    pub labels_kept : result.labels ≡ t.labels
    labels_kept = sym (number 1)

    -- The number of rounds is that of the defined rounds that split something, at most n - 1.
    pub rounds_defined : get_or values 4 0 ≡ strong_rounds t
    rounds_defined = sym (number 4)

    pub rounds_few : get_or values 4 0 ≤ t.n - 1
    rounds_few = omega (arith, rounds_defined, D.rounds_few t valid)

    -- ---- beyond it
    -- What is answered is a right table.
    pub result_valid : Valid result
    unfolding reduction_left rows_over strong_reduced quotient_of table_of
    result_valid =
        let v = reduced_valid t valid in
        subst Valid laid
        (laid_valid (strong_count t) t.labels (strong_block t t.initial) (strong_rows t) given.0.0 given.0.1.0 given.0.1.1
        record {
          some_states = v.some_states;
          few_states = v.few_states;
          some_labels = v.some_labels;
          few_labels = v.few_labels;
          few_rows = v.few_rows;
          initial = v.initial;
        }
        (λ s a u k.
        step_fields (strong_reduced t) v s a u
        (subst (λ (l : List Row). StepIn l s a u) (sym (quotient_of-rows t (strong_count t) (strong_blocks t))) k))
        (quotient_ascending (strong_block t) (rows t)))

    -- Nothing is left to reduce in it: states that some bisimulation relates are one state.
    pub result_apart : AllApart result
    unfolding strong_reduced quotient_of table_of
    result_apart s u hs hu b =
        D.blocks_apart t valid s u (omega (arith, hs, number 0)) (omega (arith, hu, number 0))
        (subst (λ (l : List Row). Bisimilar l l s u) (sym reduced_rows) b)

    -- It is the smallest table that keeps every state's behaviour: a table that has, for each state s, a state f s that some bisimulation
    -- relates to it, as this one has (`state_and_block`), has no fewer states. States that are not reachable stay, and count; of rows
    -- nothing is claimed.
    pub smallest :
        (u : Lts) (f : ℕ → ℕ) → ((s : ℕ) → s < t.n → (f s < u.n) × Bisimilar (rows t) (rows u) s (f s)) → result.n ≤ u.n
    unfolding strong_reduced quotient_of table_of
    smallest u f like = omega (arith, D.smallest t valid u f like, number 0)

    -- Reducing what is answered gives the same rows again, each state its own block.
    pub same_again : strong_rows result ≡ rows result
    same_again = own_rows_lem result result_valid result_apart

    pub each_its_own : strong_blocks result ≡ listed result.n (λ s. s)
    each_its_own = own_blocks result result_valid result_apart
