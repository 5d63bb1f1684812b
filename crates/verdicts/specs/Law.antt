-- The order law, of what a run has shown.
use Rattle.std.specs.Prelude.{◌≡◌, ◌≤◌, true, length}
use Rattle.order.specs.Words.{step_bound}
use Rattle.verdicts.specs.declared.evidence.Evidence.{Evidence}
use Rattle.verdicts.specs.declared.evidence.Terms.{Terms}
use Rattle.verdicts.specs.Sentences.{OneBeginsTheOther, NoNoteTwice, OnlyPostedNotes, RunningLogsAgree, RunningPostsLogged, CrashedLogsBeginRunningOnes, AllCrashesSuspected}

-- At rest, and every running card suspects every crashed one.
pub record Settled (e : Evidence) : Type 0 where
  pub at_rest : e.at_rest ≡ true
  pub suspected : AllCrashesSuspected e.cards.items e.suspicions.items

-- What holds where all is settled; the last over a uniform broadcast.
pub record OneOrderAtRest (t : Terms) (e : Evidence) : Type 0 where
  pub running_logs_agree : RunningLogsAgree e.cards.items
  pub running_posts_logged : RunningPostsLogged e.cards.items e.posts.items
  pub crashed_logs_begin_running_ones : t.uniform ≡ true → CrashedLogsBeginRunningOnes e.cards.items

pub record KeepsOneOrder (t : Terms) (e : Evidence) : Type 0 where
  pub one_log_for_each_card : length e.cards.items ≡ t.cards
  pub steps_within_bound : e.steps ≤ step_bound (length e.posts.items) t.cards t.post_bound t.proposal_bound
  pub one_begins_the_other : OneBeginsTheOther e.cards.items
  pub no_note_twice : NoNoteTwice e.cards.items
  pub only_posted_notes : OnlyPostedNotes e.cards.items e.posts.items
  pub one_order_at_rest : Settled e → OneOrderAtRest t e
