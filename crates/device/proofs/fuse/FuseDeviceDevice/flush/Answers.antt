use Rattle.std.proofs.Common.{rules, None}
use Rattle.device.specs.Fusing.{burnt_called}
use Rattle.device.proofs.fuse.FuseDeviceDevice.flush.Goals as goal

pub returns-in_default-clause-call : goal.returns-in_default-clause-call
returns-in_default-clause-call g c = let inner = g.D.Device.disk c.args.self.now.inner in burnt_called {left = c.args.self.now.left} {left' = None} {d = inner} {d' = inner} (search rules)
