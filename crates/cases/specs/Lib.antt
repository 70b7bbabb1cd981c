-- What a reader must believe of the lists to try: one table, and one statement about it.
pub mod Cases
