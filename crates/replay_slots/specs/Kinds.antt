-- The letters of the list of operations.
use Rattle.std.specs.Prelude.{ℕ, cond, eqb}
use Rattle.replay_slots.specs.declared.kinds.Kind.{Kind}
use Rattle.replay_slots.specs.declared.kinds.Kind.TheVariants.{Number, Flag, Read, Changed, Held, Records}
use Rattle.replay_slots.specs.declared.case.Cell.TheVariants.{Narrow, Wide, Byte}

-- what a letter stands for, by its byte: n, f, w, b, m, t, s and r; every other, as c, for a slice of u16 that is only read
unfoldable pub kind_of : ℕ → Kind
kind_of letter =
    cond (eqb letter 110) Number
    (cond (eqb letter 102) Flag
    (cond (eqb letter 119) (Read Wide)
    (cond (eqb letter 98) (Read Byte)
    (cond (eqb letter 109) (Changed Narrow)
    (cond (eqb letter 116) (Changed Byte)
    (cond (eqb letter 115) Held
    (cond (eqb letter 114) Records (Read Narrow))))))))
