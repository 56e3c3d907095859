use Rattle.std.proofs.Common.{◌-◌, arith}
use Rattle.seq_layout.proofs.Rows.{row_rises, some_start, past_all, part_found}
use Rattle.seq_layout.proofs.starts.Starts.part_at.Goals as goal

pub count_up_to-count-requires : goal.count_up_to-count-requires
count_up_to-count-requires c = row_rises c.args.self.now c.args.memory.0 c.row-starts.result.now c.row-starts.ensures.row

pub overflow_sub-extent : goal.overflow_sub-extent
overflow_sub-extent c =
    some_start c.args.self.now c.args.memory.0 c.args.place c.count_up_to-count.result c.row-starts.result.now c.row-starts.ensures.row c.count_up_to-count.ensures

pub returns-then-count-starts : goal.returns-then-count-starts
returns-then-count-starts c =
    let some = some_start c.args.self.now c.args.memory.0 c.args.place c.count_up_to-count.result c.row-starts.result.now c.row-starts.ensures.row c.count_up_to-count.ensures in
    past_all c.args.self.now c.args.memory.0 c.args.place c.count_up_to-count.result c.row-starts.result.now c.row-starts.ensures.row c.count_up_to-count.ensures (omega (arith, c.row-starts.ensures.row.columns))

pub overflow_sub-result : goal.overflow_sub-result
overflow_sub-result c =
    let some = some_start c.args.self.now c.args.memory.0 c.args.place c.count_up_to-count.result c.row-starts.result.now c.row-starts.ensures.row c.count_up_to-count.ensures in
    c.count_up_to-count.ensures.below (c.count_up_to-count.result - 1) (omega arith)

pub returns : goal.returns
returns c =
    let some = some_start c.args.self.now c.args.memory.0 c.args.place c.count_up_to-count.result c.row-starts.result.now c.row-starts.ensures.row c.count_up_to-count.ensures in
    part_found c.args.self.now c.args.memory.0 c.args.place c.count_up_to-count.result c.row-starts.result.now c.row-starts.ensures.row c.count_up_to-count.ensures (c.count_up_to-count.result - 1) (omega arith) (omega (arith, c.row-starts.ensures.row.columns, c.count_up_to-count.ensures.within))
