use Rattle.translator.proofs.Passes.{taken}
use Rattle.translator.proofs.files.read.Goals as goal

pub returns : goal.returns
returns c =
    let told = c.in_ok-file.ensures in
    taken _ c.if-bytes-gt65536.false _ _ _ _ _ _ _ _ _ _ c.new-checking.ensures c.new-filling.ensures _ told.1 _ c.file-2.ensures
