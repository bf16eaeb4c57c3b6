-- The Leaves of an asker that keeps nothing.
use Rattle.rx_value.specs.declared.key.Key.{Key}
use Rattle.term_eval.specs.Lent.{Lent}

-- all have one number: no two that are out have one key
abbrev pub lent_for : Key → Lent
lent_for key = record { key = key; number = 0 }
