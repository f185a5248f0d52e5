-- `write` writes a record whose name is one, and so is short.
use Rattle.std.proofs.Common.{rules, arith, ◌≡◌, true}
use Rattle.fields.specs.Name.{is_name}
use Rattle.fields.proofs.Lists.{name-length}
use Rattle.records.proofs.record_writer.write.Goals as goal

pub put_record-requires : goal.put_record-requires
put_record-requires c =
    let h : is_name c.args.name.now ≡ true = search rules in
    ((name-length c.args.name.now h).1, omega arith)
