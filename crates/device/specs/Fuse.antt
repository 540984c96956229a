-- A device behind a fuse: so many writes and flushes are passed on, and inside the next one it goes.
use Rattle.std.specs.Prelude.{◌≡◌, ℕ, ◌-◌, Bool, true, false, cond, ◌&&◌, Option, None, Some, is_some, option_map, ◌==◌, nat_lt}
use Rattle.device.specs.Disk.{Bytes, Disk, Op, reads, writes, flushes, refuses, place, tests, Told, good, refused, Refusal, told_by, Called}

-- `left` is how many writes and flushes are still passed on, and `None` once the fuse has blown

-- the device below, gone once the fuse has blown
abbrev pub fused : Disk → Option ℕ → Disk
fused d left = record { count = d.count; cells = d.cells; on = is_some left && d.on }

-- whether a call is passed on to the device below
abbrev pub passes_on : Op → Option ℕ → Bool
passes_on o None = false
passes_on (reads len s) (Some k) = true
passes_on (writes s bytes) (Some k) = nat_lt 0 k
passes_on flushes (Some k) = nat_lt 0 k

-- what is left after a call that was passed on: only good writes and flushes count
abbrev pub spent : Op → Option ℕ → Told Refusal Bytes → Option ℕ
spent (reads len s) left t = left
spent (writes s bytes) left (good a) = option_map (λ k. k - 1) left
spent (writes s bytes) left (refused r) = left
spent flushes left (good a) = option_map (λ k. k - 1) left
spent flushes left (refused r) = left

-- what is left after a call that was not passed on: one refused for its length or its place does not blow the fuse
abbrev pub blown_by : Option ℕ → Told Refusal Bytes → Option ℕ
blown_by left (good a) = left
blown_by left (refused r) = cond (r.number == 3) None left

-- call o at a fuse, over a device that means d, answers t and leaves the fuse and the device below
pub record Burnt (o : Op) (left : Option ℕ) (d : Disk) (t : Told Refusal Bytes) (left' : Option ℕ) (d' : Disk) : Type 0 where
  -- passed on: the call is the one below
  pub passed : passes_on o left ≡ true → Called o d t d' × (left' ≡ spent o left t)
  -- held back: a refusal, and the device below has no call
  pub held : passes_on o left ≡ false → (t ≡ told_by (tests o d (refuses 3 (place o))) o d) × (left' ≡ blown_by left t) × (d' ≡ d)
