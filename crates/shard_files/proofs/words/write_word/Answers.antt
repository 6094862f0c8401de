use Rattle.shard_files.proofs.WordLoops.{set_higher, set_long, set_lower, set_others}
use Rattle.shard_files.proofs.words.write_word.Goals as goal

pub returns-clause-long : goal.returns-clause-long
returns-clause-long c = set_long c.args.bytes.now c.args.place _ _ c.requires

pub returns-clause-written : goal.returns-clause-written
returns-clause-written c =
    record {
      lower = set_lower c.args.bytes.now c.args.place _ _ c.requires;
      higher = set_higher c.args.bytes.now c.args.place _ _ c.requires;
    }

pub returns-clause-kept : goal.returns-clause-kept
returns-clause-kept c = set_others c.args.bytes.now c.args.place _ _ c.requires
