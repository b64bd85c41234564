-- `writing::write::Output::put_all` meets its contract: the bytes are copied.
use Rattle.writing.proofs.Written.{copied}
use Rattle.writing.proofs.write.Output.put_all.Goals as goal

pub returns : goal.returns
returns c = copied c.args.self.now c.requires c.copy_from_slice.ensures.after
