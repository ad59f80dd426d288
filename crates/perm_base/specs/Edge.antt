-- What the system answers to a write.
use Rattle.std.specs.Prelude.{ℕ, ◌==◌, Option, None, Some, if◌then◌else◌}

-- the number of bytes that were taken, where there are some
abbrev pub taken_count : Option ℕ → Option ℕ
taken_count None = None
taken_count (Some count) = if count == 0 then None else Some count
