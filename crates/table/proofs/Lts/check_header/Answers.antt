-- `check_header` meets its contract.
use Rattle.std.proofs.Common.{Bool, ◌&&◌, ltb, leb, List, [], ◌∷◌, refl, ap, ◌∙◌}
use Rattle.columns.specs.Due.{Test, test, due, states_test, labels_test}
use Rattle.columns.specs.Limits.{max_rows, too_short, wrong_initial, wrong_rows}
use Rattle.columns.proofs.Chains.{refused_first, refused_second}
use Rattle.table.specs.Checks.{rows_long}
use Rattle.table.specs.Lts.{Lts, lts_of}
use Rattle.table.proofs.Lts.check_header.Goals as goal

-- the tests from the last one on, from the one before it, and so on
abbrev Short : Lts → Bool → List Test
Short t room = test (rows_long t && room) too_short 0 ∷ []

abbrev Initial : Lts → Bool → List Test
Initial t room = test (ltb t.initial t.n) wrong_initial 0 ∷ Short t room

abbrev Rows : Lts → Bool → List Test
Rows t room = test (leb t.m max_rows) wrong_rows 0 ∷ Initial t room

abbrev Labels : Lts → Bool → List Test
Labels t room = labels_test t.labels ∷ Rows t room

pub returns-in_err-check_states : goal.returns-in_err-check_states
returns-in_err-check_states c =
    let t = lts_of c.args.self.now in
    refused_first (states_test t.n ∷ []) (Labels t c.args.room) refl _ _ c.in_err-check_states.ensures c.from_residual.ensures.1

pub returns-in_err-check_labels : goal.returns-in_err-check_labels
returns-in_err-check_labels c =
    let t = lts_of c.args.self.now in
    refused_second (states_test t.n ∷ []) (Labels t c.args.room) refl _ c.in_ok-check_states.ensures
    (refused_first (labels_test t.labels ∷ []) (Rows t c.args.room) refl _ _ c.in_err-check_labels.ensures
    c.from_residual-in_err-check_labels.ensures.1)

pub returns-in_err-refuse_unless : goal.returns-in_err-refuse_unless
returns-in_err-refuse_unless c =
    let t = lts_of c.args.self.now in
    refused_second (states_test t.n ∷ []) (Labels t c.args.room) refl _ c.in_ok-check_states.ensures
    (refused_second (labels_test t.labels ∷ []) (Rows t c.args.room) refl _ c.in_ok-check_labels.ensures
    (refused_first (test (leb t.m max_rows) wrong_rows 0 ∷ []) (Initial t c.args.room) refl _ _ c.in_err-refuse_unless.ensures
    c.from_residual-in_err-refuse_unless.ensures.1))

pub returns-in_err-refuse_unless-2 : goal.returns-in_err-refuse_unless-2
returns-in_err-refuse_unless-2 c =
    let t = lts_of c.args.self.now in
    refused_second (states_test t.n ∷ []) (Labels t c.args.room) refl _ c.in_ok-check_states.ensures
    (refused_second (labels_test t.labels ∷ []) (Rows t c.args.room) refl _ c.in_ok-check_labels.ensures
    (refused_second (test (leb t.m max_rows) wrong_rows 0 ∷ []) (Initial t c.args.room) refl _ c.in_ok-refuse_unless.ensures
    (refused_first (test (ltb t.initial t.n) wrong_initial 0 ∷ []) (Short t c.args.room) refl _ _ c.in_err-refuse_unless-2.ensures
    c.from_residual-in_err-refuse_unless-2.ensures.1)))

pub returns : goal.returns
unfolding rows_long
returns c =
    let t = lts_of c.args.self.now in
    refused_second (states_test t.n ∷ []) (Labels t c.args.room) refl _ c.in_ok-check_states.ensures
    (refused_second (labels_test t.labels ∷ []) (Rows t c.args.room) refl _ c.in_ok-check_labels.ensures
    (refused_second (test (leb t.m max_rows) wrong_rows 0 ∷ []) (Initial t c.args.room) refl _ c.in_ok-refuse_unless.ensures
    (refused_second (test (ltb t.initial t.n) wrong_initial 0 ∷ []) (Short t c.args.room) refl _ c.in_ok-refuse_unless-2.ensures
    (c.refuse_unless-3.ensures ∙ ap (λ (b : Bool). due (test (b && c.args.room) too_short 0 ∷ [])) c.long-rows.ensures))))
