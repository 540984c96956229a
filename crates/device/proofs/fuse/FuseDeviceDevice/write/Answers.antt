use Rattle.std.proofs.Common.{rules, None}
use Rattle.device.specs.Fusing.{burnt_called}
use Rattle.device.proofs.fuse.FuseDeviceDevice.write.Goals as goal

pub returns-in_err-check_sector-in_default-clause-call : goal.returns-in_err-check_sector-in_default-clause-call
returns-in_err-check_sector-in_default-clause-call g c =
    let self = c.args.self.now in
    let inner = g.D.Device.disk self.inner in
    burnt_called {left = self.left} {left' = self.left} {d = inner} {d' = inner} (search rules)

pub returns-in_ok-check_sector-in_default-clause-call : goal.returns-in_ok-check_sector-in_default-clause-call
returns-in_ok-check_sector-in_default-clause-call g c =
    let self = c.args.self.now in
    let inner = g.D.Device.disk self.inner in
    burnt_called {left = self.left} {left' = None} {d = inner} {d' = inner} (search rules)
