-- The next byte is in the buffer, or the buffer is filled anew.
use Rattle.std.proofs.Common.{refl, ⊎_elim}
use Rattle.replay_lines.specs.Places.{stepped}
use Rattle.replay_lines.proofs.Placing.{held_full, held_end, next_within, next_beyond}
use Rattle.replay_lines.proofs.input.Input.next.Goals as goal

pub returns-then-at-lt65536 : goal.returns-then-at-lt65536
unfolding stepped
returns-then-at-lt65536 c = next_within _ _ c.if-at-self.true c.if-at-lt65536.true refl refl refl

pub returns-else-at-self : goal.returns-else-at-self
returns-else-at-self c = next_beyond _ _ (⊎_elim (λ full. held_full _ full.1) (λ end. held_end _ end) c.else-at-self.either) c.refill.ensures
