use Rattle.std.proofs.Common.{rules}
use Rattle.records.proofs.Taken.{cut_first, cut_after}
use Rattle.records.proofs.input.next_bytes.Goals as goal

pub returns-clause-first : goal.returns-clause-first
returns-clause-first g c =
    let n = c.in_ok-n.ensures in
    cut_first _ _ _ c.read_full.new.into c.in_ok-bytes.bytes.items c.in_ok-n.n c.args.most c.in_ok-bytes.bytes.len
    n.bound.0 (search rules) (search rules) n.bytes n.end c.truncate.ensures.items

pub returns-clause-after : goal.returns-clause-after
returns-clause-after g c =
    let n = c.in_ok-n.ensures in
    cut_after _ _ _ c.read_full.new.into c.in_ok-bytes.bytes.items c.in_ok-n.n c.args.most c.in_ok-bytes.bytes.len
    n.bound.0 (search rules) (search rules) n.bytes n.end c.truncate.ensures.items
