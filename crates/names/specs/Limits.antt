-- What a plan may ask for (the scope, "Plans and images"). Assumes nothing.
use Rattle.std.specs.Prelude.{ℕ}

-- a memory has 1 to 32768 words
abbrev pub plan_words : ℕ
plan_words = 32768
