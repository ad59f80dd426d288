-- Numbered calls of which chosen ones fail.
use Rattle.std.specs.Prelude.{ℕ, List, Bool, ◌==◌, if◌then◌else◌}
use Rattle.std.specs.List.{list_any}
use Rattle.perm_base.specs.Counts.{next_count}

-- whether the call after so many calls is one of those that fail
abbrev pub is_next_failing : List ℕ → ℕ → Bool
is_next_failing fail calls = list_any (λ number. number == next_count calls) fail

-- the count of faults after a call that raises it where it is one of those that fail
abbrev pub faults_after : List ℕ → ℕ → ℕ → ℕ
faults_after fail calls faults = if is_next_failing fail calls then next_count faults else faults
