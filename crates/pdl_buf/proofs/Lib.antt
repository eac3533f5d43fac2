pub mod TripleWholes
pub mod BroadcastStretches
