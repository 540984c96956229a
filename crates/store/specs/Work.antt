-- What a call leaves of the work buffer that it is lent.
use Rattle.std.specs.Prelude.{cond, length, replicate, ◌==◌}
use Rattle.device.specs.Disk.{Bytes}

-- zeros again, whatever the call answers; one of the wrong length is not touched
abbrev pub spent : Bytes → Bytes
spent b = cond (length b == 8192) (replicate (length b) 0) b
