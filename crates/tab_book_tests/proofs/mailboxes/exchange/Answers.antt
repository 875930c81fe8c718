use denote.Param.Send.{sendable}
use denote.Param.SendFields.{declared_send, as_row_send}
use Rattle.tab_post.proofs.Crossing.{ChannelPost-send}
use Rattle.tab_book_tests.proofs.mailboxes.exchange.Goals as goal

pub join-post-requires-send-F : goal.join-post-requires-send-F
join-post-requires-send-F g c κs within = search (sendable, ChannelPost-send, as_row_send, declared_send) depth 14

pub join-post-requires-send-A : goal.join-post-requires-send-A
join-post-requires-send-A g c κs within = search (ChannelPost-send, sendable) depth 20
