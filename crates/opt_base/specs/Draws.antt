-- Numbers drawn from a state of 64 bits: a linear congruential generator modulo 2^64, whose upper bits are taken.
use Rattle.std.specs.Prelude.{ℕ, zero, suc, ◌+◌, ◌*◌, ◌/◌, ◌%◌, ◌^◌}

-- the state after a draw
abbrev pub next_state : ℕ → ℕ
next_state state = (6364136223846793005 * state + 1442695040888963407) % 2 ^ 64

-- what a draw below a number gives; 0 where nothing lies below
abbrev pub number_drawn : ℕ → ℕ → ℕ
number_drawn state zero = 0
number_drawn state (suc below) = (next_state state / 2 ^ 33) % suc below

-- the state after a draw below a number; the same where nothing lies below
abbrev pub state_after : ℕ → ℕ → ℕ
state_after state zero = state
state_after state (suc below) = next_state state
